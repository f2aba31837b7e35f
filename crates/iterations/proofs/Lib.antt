pub mod Exits
mod Watching
