pub mod Found
pub mod Records
pub mod Rows
