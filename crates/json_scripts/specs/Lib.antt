pub mod DebugData
pub mod Headed
