-- Lemmas on the texts of names and lines, and where texts leave their grammars.
pub mod AddressParts
pub mod CheckLists
pub mod Decimals
pub mod Escapes
pub mod Heads
pub mod HexDigests
pub mod LineLaws
pub mod Literals
pub mod Named
pub mod Parts
pub mod Refused
pub mod Tailed
pub mod Tails
pub mod Values
pub mod With
pub mod Words
