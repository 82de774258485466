pub mod Records
pub mod Beside
pub mod Watching
pub mod Laws
pub mod files
pub mod internal
