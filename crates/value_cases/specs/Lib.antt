pub mod Choices
pub mod Coordinates
pub mod Digests
pub mod Exclusions
pub mod Scopes
pub mod Versions
