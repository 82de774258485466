-- What only private functions and proofs cite.
pub mod Bounds
pub mod Row
pub mod Field
pub mod Index
