pub mod Additions
pub mod Exclusions
pub mod Kept
pub mod Lookups
pub mod Minimal
pub mod Rows
