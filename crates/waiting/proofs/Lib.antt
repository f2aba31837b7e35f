mod Reaching
mod Keeping
mod Coming
mod Pending
mod Everyone
