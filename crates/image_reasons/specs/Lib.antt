pub mod Origins
pub mod Reasons
pub mod Lost
pub mod Told
pub mod Reasoned
pub mod Repairs
pub mod PutIn
