pub mod Rights
pub mod Unseen
mod Worked
pub mod Lent
