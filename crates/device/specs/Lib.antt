pub mod Device
pub mod WellFormed
