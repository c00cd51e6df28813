-- Laws of paths, of what links keep, and what the loops over pieces and rows rest on.
pub mod ByPieces
mod FirstPlaces
pub mod Kept
pub mod PlainPaths
pub mod Segments
pub mod Zipped
