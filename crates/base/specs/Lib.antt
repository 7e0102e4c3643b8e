pub mod Shards
pub mod Stored
pub mod Records
pub mod Parts
pub mod Indexed
