pub mod Samples
pub mod Read
