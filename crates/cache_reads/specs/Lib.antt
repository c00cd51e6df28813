pub mod Finds
pub mod Measuring
pub mod Pieces
pub mod Reads
pub mod Upgrades
