pub mod Finding
pub mod Rows
pub mod Whole
