pub mod Covering
pub mod KeyLaw
pub mod Listing
pub mod Lying
pub mod Narrowing
pub mod RegionLaw
pub mod Seeking
