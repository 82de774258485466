pub mod Asks
pub mod Laws
pub mod Left
pub mod Position
