pub mod Drafts
pub mod Plans
