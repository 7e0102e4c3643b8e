pub mod Counting
pub mod Cycles
pub mod Links
pub mod Rings
pub mod Entries
pub mod Maps
