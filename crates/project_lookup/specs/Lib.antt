pub mod KnownPairs
pub mod Listings
pub mod Looks
pub mod Refusals
pub mod Rows
