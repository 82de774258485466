pub mod Grouped
pub mod Name
