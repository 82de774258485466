pub mod Places
pub mod permissions
pub mod warnings
pub mod lint
pub mod comparison
