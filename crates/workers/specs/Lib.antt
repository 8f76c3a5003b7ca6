pub mod Limits
pub mod Progress
