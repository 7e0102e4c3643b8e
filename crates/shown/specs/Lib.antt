pub mod Moves
pub mod Snapshots
pub mod Sights
pub mod Looks
pub mod Boards
