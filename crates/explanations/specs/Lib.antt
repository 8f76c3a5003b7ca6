pub mod StepLines
pub mod Refusals
pub mod Questions
pub mod Declarations
