pub mod Table
pub mod History
pub mod internal
pub mod Laws
