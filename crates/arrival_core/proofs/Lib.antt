-- Lemmas of cores.
pub mod Keeping
pub mod Lawful
pub mod Listed
pub mod Members
pub mod Standing
