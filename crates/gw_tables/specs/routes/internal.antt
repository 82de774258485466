pub mod Fixed
pub mod News
