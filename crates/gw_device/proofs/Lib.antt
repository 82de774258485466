pub mod Changes
pub mod PropertyLemmas
pub mod Unread
pub mod Writes
pub mod LimitLemmas
