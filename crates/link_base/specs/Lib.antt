-- Links, sinks and clocks: what they answer and keep, and what those in memory hold.
pub mod Addresses
pub mod FilePaths
pub mod Links
pub mod MemoryCalls
pub mod MemoryClocks
pub mod MemoryLinks
pub mod MemorySinks
pub mod OpenFiles
pub mod Pieces
pub mod Sinks
pub mod UrlPlaces
