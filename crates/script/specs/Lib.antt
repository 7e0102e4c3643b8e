pub mod Words
pub mod Machine
pub mod Commands
pub mod Scripts
pub mod Values
pub mod Columns
pub mod Arguments
