pub mod Thinner
pub mod Followed
