pub mod FailuresBreak
