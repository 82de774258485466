pub mod Elements
pub mod Escape
pub mod Laws
pub mod Mark
pub mod Page
