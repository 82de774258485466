pub mod Conditions
pub mod Unraised
pub mod Passing
