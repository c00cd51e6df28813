-- Lemmas of sessions that were worked through.
pub mod Bounds
pub mod Settling
pub mod Sticking
