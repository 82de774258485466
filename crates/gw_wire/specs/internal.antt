-- What only private parts and proofs cite.
pub mod Asking
pub mod Lending
