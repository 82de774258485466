pub mod Lines
pub mod Names
pub mod Reading
pub mod Samples
pub mod Metered
pub mod Ticks
