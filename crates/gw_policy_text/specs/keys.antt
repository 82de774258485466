pub mod Field
pub mod Items
pub mod Laws
pub mod Range
pub mod Tables
pub mod Value
pub mod Written
