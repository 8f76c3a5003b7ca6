pub mod Candidates
pub mod Sets
