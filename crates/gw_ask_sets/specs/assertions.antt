pub mod Asserted
pub mod Judging
pub mod internal
