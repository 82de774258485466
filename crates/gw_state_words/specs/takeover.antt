pub mod Findings
pub mod Losses
pub mod Laws
