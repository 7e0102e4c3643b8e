pub mod Members
pub mod Each
