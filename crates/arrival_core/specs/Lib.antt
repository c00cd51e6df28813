-- Cores: their rounds, what contracts see of them, and what is kept from call to call.
pub mod Cores
pub mod Kept
pub mod Resolving
