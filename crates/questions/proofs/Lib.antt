pub mod ReversedLists
pub mod ItemSteps
pub mod StatementSteps
pub mod PlaceSteps
pub mod FirstLines
