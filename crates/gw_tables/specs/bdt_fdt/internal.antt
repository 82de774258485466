pub mod Leases
pub mod Iterators
