-- What only private functions and proofs cite.
pub mod Crowding
pub mod Looking
pub mod Nearest
