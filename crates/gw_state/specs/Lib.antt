pub mod Saved
pub mod Carried
