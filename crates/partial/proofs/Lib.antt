pub mod Reversed
pub mod InHand
pub mod Truth
pub mod BagSums
pub mod Merges
