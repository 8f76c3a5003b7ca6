-- Words for clauses that speak of one machine for many threads.
pub use Rattle.workers.specs.Limits.{MayShare, max_seats}
pub use Rattle.live.specs.Journal.{IsLegal, Stands, answer_to, replay, state_from}
pub use Rattle.live.specs.Seats.{AreFresh, Sitting}
pub use Rattle.live.specs.Receipts.{IsAfter, IsIssued, IsRefused, calls_of}
