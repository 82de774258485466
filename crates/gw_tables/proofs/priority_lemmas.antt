pub mod History
pub mod Last
pub mod Present
