pub mod Appending
pub mod Explanations
pub mod Known
