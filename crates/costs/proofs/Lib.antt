mod LongestWaits
mod Highest
