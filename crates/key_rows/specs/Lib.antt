pub mod Pieces
pub mod Changed
pub mod Shared
pub mod Kept
pub mod Given
