pub mod BaseTurns
pub mod Fresh
pub mod StageTurns
pub mod ViewTurns
pub mod Waits
