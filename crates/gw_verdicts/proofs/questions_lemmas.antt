pub mod Ends
pub mod Heard
pub mod Logged
pub mod Octets
pub mod Sent
pub mod Texts
