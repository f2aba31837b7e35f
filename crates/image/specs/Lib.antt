pub mod Tasks
pub mod Judged
pub mod Conditions
pub mod Promise
pub mod Moved
pub mod Closed
pub mod Inner
pub mod Walks
