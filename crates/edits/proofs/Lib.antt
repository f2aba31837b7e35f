pub mod Written
pub mod Alike
pub mod Plain
pub mod Standing
pub mod Finds
pub mod Laws
pub mod Promises
pub mod Worked
