pub mod Journal
pub mod FaultTexts
pub mod Seats
pub mod Receipts
