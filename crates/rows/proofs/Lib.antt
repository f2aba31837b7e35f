pub mod Lists
pub mod Rules
pub mod Kept
pub mod Standing
pub mod Reading
pub mod Unmoved
