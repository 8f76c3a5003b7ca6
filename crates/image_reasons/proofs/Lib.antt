pub mod EntriesAreThere
mod PlacesFromNought
mod ListMembers
mod LaterFlushes
mod MissingOneByOne
pub mod MissingWritesAreLost
pub mod NoMissingWriteIsLeftOut
mod OperationsAreNoted
mod FlushesAreAll
mod EffectsInOrder
pub mod SitesAreWhereTheyRan
pub mod ReasonsAreSo
pub mod OneInstructionIsPutIn
