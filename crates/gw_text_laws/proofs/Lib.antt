pub mod Before
pub mod Fields
pub mod Single
pub mod Macs
