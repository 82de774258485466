-- What only private functions and proofs cite.
pub mod Block
pub mod Lines
pub mod Put
pub mod Stop
pub mod Objects
