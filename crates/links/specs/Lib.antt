pub mod Queued
pub mod Rings
pub mod Turns
