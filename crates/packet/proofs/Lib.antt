mod TruthSamples
pub mod Ascending
pub mod KeptKeys
mod Splits
mod Rooms
pub mod Sends
mod Arrivals
pub mod Joins
pub mod KeySteps
pub mod GroupSteps
pub mod GroupChanges
pub mod Copies
