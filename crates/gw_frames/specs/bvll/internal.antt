-- What only proofs cite.
pub mod Reads
