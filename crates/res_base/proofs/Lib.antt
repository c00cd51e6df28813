-- Lemmas on coordinates and paths, and laws of equality, members and known answers.
pub mod CoordReaderRight
pub mod CoordSteps
pub mod Equality
pub mod KnownPairs
pub mod Members
pub mod PathShapes
pub mod PathsApart
pub mod Pigeons
pub mod Slashes
