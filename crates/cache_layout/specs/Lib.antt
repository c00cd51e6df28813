pub mod Addresses
pub mod Fields
pub mod Lines
pub mod Names
pub mod Places
pub mod Readings
pub mod Rows
