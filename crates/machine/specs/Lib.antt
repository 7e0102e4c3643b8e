pub mod Held
pub mod Turned
pub mod Machines
pub mod Started
