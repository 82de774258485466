pub mod Body
pub mod Element
