mod Filled
mod Owned
pub mod Stands
mod Taken
