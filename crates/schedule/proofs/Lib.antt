pub mod Numbers
pub mod Pairs
pub mod Sayings
pub mod Writings
mod Few
mod Dividing
