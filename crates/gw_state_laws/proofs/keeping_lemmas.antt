pub mod Currency
pub mod Runs
