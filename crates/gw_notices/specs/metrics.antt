pub mod Escape
pub mod Family
pub mod Laws
pub mod Text
pub mod Writing
