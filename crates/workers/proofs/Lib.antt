pub mod CompletedParts
