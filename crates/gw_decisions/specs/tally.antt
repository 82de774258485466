pub mod Counting
pub mod Tally
