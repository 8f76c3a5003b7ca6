pub mod Added
pub mod Traced
pub mod Sets
