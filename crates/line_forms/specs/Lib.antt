pub mod Places
pub mod Slots
pub mod Stages
pub mod Misfits
pub mod Forms
pub mod FaultPlaces
