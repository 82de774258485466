-- What only private parts and proofs cite.
pub mod LineOutcome
