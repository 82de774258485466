pub mod Comparisons
pub mod internal
