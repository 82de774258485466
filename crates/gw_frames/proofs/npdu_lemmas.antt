pub mod Octet
pub mod Parts
pub mod Shape
pub mod Judged
pub mod Short
pub mod Whole
