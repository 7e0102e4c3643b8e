pub mod Fitting
pub mod Tells
pub mod Verdicts
