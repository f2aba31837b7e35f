pub mod Packing
pub mod Bytewise
