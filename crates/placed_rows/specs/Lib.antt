pub mod Values
pub mod Here
pub mod Parts
pub mod Placed
pub mod Seen
