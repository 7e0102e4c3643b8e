pub mod Asks
pub mod Schedules
pub mod Events
pub mod Replies
