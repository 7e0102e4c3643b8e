mod Lines
pub mod Waiting
