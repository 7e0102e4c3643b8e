pub mod States
pub mod Truth
pub mod Sums
pub mod BagLaws
