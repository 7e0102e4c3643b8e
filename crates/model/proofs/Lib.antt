pub mod Lists
pub mod Numbers
pub mod LogLaws
pub mod Growth
pub mod LegalLogs
pub mod RowFits
pub mod Beginnings
pub mod Prefixes
pub mod PlaceLaws
pub mod Sources
pub mod CutLaws
pub mod Zeros
pub mod Samples
pub mod MoreSamples
pub mod LegalSamples
mod Copies
