pub mod Tops
mod Round
pub mod Passes
pub mod Parted
