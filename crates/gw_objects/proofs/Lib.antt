pub mod Elements
pub mod Deciding
pub mod Histories
pub mod Places
pub mod Others
pub mod Priorities
pub mod SameValues
