pub mod Numbers
pub mod Lists
pub mod Kept
pub mod Levels
pub mod Fetches
pub mod Reading
