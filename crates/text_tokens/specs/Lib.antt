pub mod Numbers
pub mod Text
pub mod Cursors
