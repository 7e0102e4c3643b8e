pub mod Changes
pub mod SideRows
pub mod Stages
pub mod Walks
