pub mod Oversights
pub mod Subnet
pub mod Warnings
