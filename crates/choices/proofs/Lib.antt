mod ByPlace
pub mod Above
pub mod Orders
mod SpreadByPlace
mod Waited
