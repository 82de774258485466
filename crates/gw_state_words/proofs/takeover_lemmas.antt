pub mod Firsts
pub mod PortLaws
pub mod RouteLaws
pub mod FullLaw
pub mod ObjectLaws
