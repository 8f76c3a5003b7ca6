pub mod Items
pub mod NoFloats
pub mod LinesOfSteps
pub mod StateParts
