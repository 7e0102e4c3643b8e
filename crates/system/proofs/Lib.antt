pub mod Started
