pub mod Places
pub mod Sent
