pub mod Due
pub mod Lines
pub mod Replies
pub mod Shows
pub mod Starting
pub mod Stepped
