pub mod Counted
pub mod tally
