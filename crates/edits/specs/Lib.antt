pub mod Edits
pub mod Promise
pub mod Steps
