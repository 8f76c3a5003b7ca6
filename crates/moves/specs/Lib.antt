pub mod Moves
pub mod Tried
pub mod Told
