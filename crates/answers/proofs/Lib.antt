pub mod Whole
pub mod Accesses
pub mod Promises
pub mod EitherWay
pub mod Closing
