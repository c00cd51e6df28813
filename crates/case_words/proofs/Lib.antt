pub mod HexWords
pub mod Joins
pub mod Pieces
