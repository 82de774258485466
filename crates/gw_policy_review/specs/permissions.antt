pub mod Allowances
pub mod Laws
pub mod Passing
pub mod Permissions
pub mod Questions
pub mod Texts
pub mod Words
