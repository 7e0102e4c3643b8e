pub mod Told
pub mod Outboxes
pub mod Sides
pub mod Shards
pub mod Rows
pub mod Codes
