pub mod Errors
pub mod Words
pub mod Checks
pub mod Fields
