-- What only private parts and proofs cite.
pub mod Frame
pub mod Kept
pub mod Outcome
pub mod Replies
pub mod Reports
pub mod Respond
pub mod Sieved
pub mod View
