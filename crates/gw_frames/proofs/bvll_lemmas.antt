pub mod EntryLists
pub mod Messages
