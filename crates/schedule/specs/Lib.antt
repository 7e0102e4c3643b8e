pub mod Codes
pub mod Placed
pub mod Sessions
pub mod Taken
pub mod Ways
