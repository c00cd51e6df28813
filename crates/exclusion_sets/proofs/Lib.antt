-- Lemmas: tests that hold together, covered rules by look-ups, additions to collections, and the laws of sets.
pub mod Booleans
pub mod Lookups
pub mod Minimal
pub mod SetLaws
