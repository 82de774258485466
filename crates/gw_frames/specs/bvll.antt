pub mod Tens
pub mod Entries
pub mod Bvll
pub mod Reading
pub mod Shape
pub mod Sending
pub mod internal
