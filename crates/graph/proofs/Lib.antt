pub mod Schedules
pub mod Tables
mod Reasons
mod Filling
pub mod OnTheBus
pub mod Promises
mod Worked
