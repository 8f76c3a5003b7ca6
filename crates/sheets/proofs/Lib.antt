mod RowSteps
mod Ranges
mod Constants
pub mod ToldLines
