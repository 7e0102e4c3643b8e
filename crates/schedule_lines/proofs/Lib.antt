pub mod Asking
pub mod Happening
