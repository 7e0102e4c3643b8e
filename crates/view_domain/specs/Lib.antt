pub mod Shown
pub mod Taken
pub mod Parts
pub mod Outboxes
pub mod Domains
pub mod Codes
pub mod Received
