pub mod HexWord
pub mod Names
pub mod Words
