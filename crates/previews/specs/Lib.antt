pub mod Previews
pub mod Promise
