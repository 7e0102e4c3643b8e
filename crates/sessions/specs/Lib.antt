pub mod Callers
pub mod Inserts
pub mod Reads
pub mod Fences
pub mod Sights
pub mod Counts
pub mod Orders
