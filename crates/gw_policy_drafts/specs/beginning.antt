pub mod Part
pub mod Site
pub mod Flaws
pub mod Ports
pub mod Begun
