pub mod Limit
pub mod Piece
