pub mod Orders
pub mod Rings
pub mod LinkedMap
pub mod Lends
