pub mod Tests
pub mod Formed
pub mod Long
pub mod Sweeps
pub mod Steps
