pub mod Placing
pub mod PartsOrder
