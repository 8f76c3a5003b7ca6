pub mod TokenPlaces
pub mod FittingTokens
pub mod SlotsBehind
pub mod NamedTokens
