pub mod Joins
pub mod Fetches
pub mod Parts
pub mod Watching
pub mod Children
pub mod Descents
mod Loops
