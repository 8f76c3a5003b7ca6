pub mod FullMemoriesAreFull
