pub mod StepTexts
pub mod Written
pub mod Enabled
pub mod Schedules
pub mod Masks
pub mod Choices
pub mod Turns
pub mod Ranges
