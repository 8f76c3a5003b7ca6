pub mod EndsAsLines
pub mod RepliesAsValues
