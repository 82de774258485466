pub mod Assertions
pub mod Configured
pub mod Files
pub mod Places
pub mod Printing
