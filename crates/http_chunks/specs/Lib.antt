pub mod Chunks
pub mod Readings
