-- What only private parts and proofs cite.
pub mod Targets
pub mod Batches
pub mod Octets
pub mod Grants
pub mod Ticks
pub mod Serving
pub mod Entering
pub mod Passing
pub mod Outgoing
pub mod Rooms
pub mod Taken
