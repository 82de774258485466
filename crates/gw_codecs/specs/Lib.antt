pub mod tags
pub mod apdu
pub mod services
pub mod names
