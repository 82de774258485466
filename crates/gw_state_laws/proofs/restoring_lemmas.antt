pub mod Once
pub mod PortsFit
pub mod RoutesFit
pub mod ObjectsFit
pub mod Whole
