pub mod Commandable
pub mod History
