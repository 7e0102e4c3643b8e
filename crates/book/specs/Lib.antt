pub mod Words
pub mod Pages
pub mod Fronts
pub mod Sessions
pub mod Rights
pub mod Replies
