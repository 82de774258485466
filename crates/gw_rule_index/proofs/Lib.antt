pub mod Rows
pub mod Gathered
pub mod Halving
pub mod Fields
pub mod Ends
pub mod Limits
pub mod Named
