pub mod Ahead
pub mod Mends
pub mod Searches
