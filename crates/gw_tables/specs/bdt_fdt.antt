pub mod Registrations
pub mod History
pub mod Peers
pub mod Laws
pub mod internal
pub mod Kept
