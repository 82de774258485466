pub mod Deeds
pub mod Exchanges
pub mod Folders
pub mod Reported
pub mod RequestFiles
