pub mod ThreadCommands
pub mod TallyTexts
mod WorkerReceipts
mod ReceiptsOfOneSeat
mod ReceiptsTellTheJournal
mod BroughtReceipts
mod ReplaysKeepTheShape
