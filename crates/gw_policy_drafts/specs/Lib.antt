pub mod beginning
pub mod suggestion
pub mod migration
pub mod Listing
pub mod internal
