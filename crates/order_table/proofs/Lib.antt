pub mod MasksOverLists
pub mod DecodedOperations
pub mod JoinedMasks
pub mod LinesInUse
pub mod MasksPushAndTake
