-- What only private parts and proofs cite.
pub mod Wanted
pub mod RecordedIn
