pub mod Tables
pub mod Names
pub mod Laws
pub mod internal
