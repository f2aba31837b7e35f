pub mod Nodes
pub mod Fine
pub mod Weights
