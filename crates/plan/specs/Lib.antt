pub mod Layouts
pub mod Kinds
pub mod Outputs
pub mod Profile
pub mod Facts
pub mod Recipes
pub mod Domains
