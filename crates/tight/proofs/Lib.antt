pub mod Tables
pub mod Rooms
pub mod Parts
pub mod Children
pub mod Descents
pub mod Leaves
pub mod Loops
