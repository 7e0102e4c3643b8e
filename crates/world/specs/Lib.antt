pub mod Rounds
pub mod Noted
pub mod Listed
pub mod Sought
pub mod Stopped
