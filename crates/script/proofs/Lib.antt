pub mod Scan
pub mod Lines
pub mod Reading
pub mod Saying
pub mod Numbers
pub mod Cells
