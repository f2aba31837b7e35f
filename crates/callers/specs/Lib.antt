pub mod Callers
pub mod Conditions
pub mod Promise
