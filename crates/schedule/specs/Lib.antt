pub mod Said
pub mod Written
pub mod Inner
