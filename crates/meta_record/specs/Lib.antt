pub mod Listings
pub mod Readings
pub mod Refusals
pub mod Versions
