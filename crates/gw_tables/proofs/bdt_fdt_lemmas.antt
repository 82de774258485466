pub mod Same
pub mod Order
pub mod Words
pub mod Rows
pub mod Ends
pub mod Entries
pub mod Restoring
