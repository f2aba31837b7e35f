pub mod Reasons
pub mod Kept
pub mod Apart
pub mod Reach
pub mod Timing
pub mod Worked
