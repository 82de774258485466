pub mod Files
pub mod Options
pub mod Parses
pub mod Values
