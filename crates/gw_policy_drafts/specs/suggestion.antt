pub mod Given
pub mod Laws
pub mod Lines
pub mod Own
pub mod Suggestion
pub mod Text
