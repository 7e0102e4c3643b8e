mod Queued
mod StageTurns
mod ViewTurns
mod BaseTurns
pub mod Steps
pub mod Based
pub mod Meeting
pub mod Acks
mod Viewed
mod Sending
pub mod Ordered
mod StageOrders
mod Starting
