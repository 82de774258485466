pub mod Appending
pub mod Found
pub mod Notes
pub mod Ordered
pub mod Passing
pub mod Taking
