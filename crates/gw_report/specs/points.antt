pub mod Cells
pub mod Points
pub mod Reading
pub mod Laws
pub mod internal
