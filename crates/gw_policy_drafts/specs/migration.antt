pub mod Items
pub mod Migration
pub mod Ports
