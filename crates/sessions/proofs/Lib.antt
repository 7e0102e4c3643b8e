mod Shards
mod Later
mod Callers
mod Cuts
mod Looks
mod Found
mod Words
mod Floored
pub mod Counts
