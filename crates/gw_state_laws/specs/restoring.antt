pub mod GatewayOf
pub mod Laws
pub mod internal
