pub mod LegalJournalsReplay
pub mod IssuedReceipts
pub mod ReceiptsAreTheJournal
pub mod FreshSeats
