pub mod Sites
pub mod Changes
pub mod Weakened
pub mod Needs
pub mod Least
pub mod Tried
pub mod Listed
