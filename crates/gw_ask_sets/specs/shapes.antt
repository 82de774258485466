pub mod Cover
pub mod Meeting
pub mod Pieces
pub mod Regions
pub mod Search
pub mod Shape
pub mod Shapes
