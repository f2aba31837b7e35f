pub mod Listed
pub mod OneMore
pub mod Entries
pub mod Bridge
pub mod Starting
pub mod Answering
