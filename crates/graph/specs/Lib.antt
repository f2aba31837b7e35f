pub mod Graph
pub mod Table
pub mod Conditions
pub mod Images
pub mod Promise
pub mod Steps
