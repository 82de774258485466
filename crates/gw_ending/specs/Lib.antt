pub mod Ending
pub mod reading
