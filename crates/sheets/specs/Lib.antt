pub mod Abbreviations
pub mod Texts
pub mod Words
pub mod Sheets
pub mod Calls
pub mod Reading
