mod StateSteps
mod EvictSteps
mod BagSteps
mod ChangeSteps
mod FillSteps
mod TakeSteps
mod PartSteps
mod LineSteps
mod OutSteps
mod AskSteps
mod Holds
mod Packets
pub mod Readers
pub mod Fresh
