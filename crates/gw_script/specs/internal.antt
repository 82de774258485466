-- What only private functions and proofs cite.
pub mod Pairs
pub mod Digits
pub mod Finding
