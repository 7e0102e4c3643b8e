pub mod Mapped
pub mod Placed
pub mod Rises
