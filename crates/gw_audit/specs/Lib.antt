pub mod Line
pub mod Laws
pub mod Entry
pub mod internal
pub mod Short
