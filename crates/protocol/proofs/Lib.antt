mod BaseSamples
mod ViewSamples
mod StageSamples
mod SampleWords
mod WorldSamples
mod CallSamples
mod ShardedSamples
pub mod Leading
pub mod Wired
pub mod Lists
pub mod EdgeLaws
pub mod Spots
pub mod Runs
pub mod Parts
pub mod Moves
pub mod Within
pub mod Keeps
pub mod Owns
pub mod Fences
pub mod Settles
pub mod Start
pub mod Writes
pub mod Calls
pub mod Every
pub mod Ranges
pub mod Caps
pub mod Evictions
pub mod BaseTruth
pub mod PlanEdges
