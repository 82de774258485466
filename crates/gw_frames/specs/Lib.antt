pub mod bvll
pub mod npdu
