pub mod Prefix
pub mod Display
