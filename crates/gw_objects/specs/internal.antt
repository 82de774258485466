pub mod Part
pub mod View
pub mod Act
pub mod Index
