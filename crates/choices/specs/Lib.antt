pub mod Choices
pub mod Waiting
