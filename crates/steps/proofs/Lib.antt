pub mod Landing
mod Steps
