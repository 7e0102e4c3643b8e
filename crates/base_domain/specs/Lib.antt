pub mod Codes
pub mod Domains
pub mod Received
pub mod Told
