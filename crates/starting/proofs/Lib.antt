mod Nows
pub mod EveryNow
