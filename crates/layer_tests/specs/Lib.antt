pub mod FullMemories
