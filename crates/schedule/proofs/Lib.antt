mod Alls
pub mod Domains
mod Images
mod Pushes
mod Raises
mod Tellings
