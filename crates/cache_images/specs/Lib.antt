pub mod Along
pub mod Leaves
pub mod Orders
pub mod Places
pub mod Sequences
pub mod Sound
