pub mod StateOf
pub mod Laws
