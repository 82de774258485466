pub mod Limits
pub mod Listing
pub mod Lines
