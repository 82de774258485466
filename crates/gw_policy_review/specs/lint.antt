pub mod Finding
pub mod Laws
pub mod Lint
pub mod Notes
pub mod Passage
pub mod Text
pub mod Trust
