-- Lemmas: places of keys among pairs, and the laws of look-ups.
pub mod KnownLemmas
pub mod LookLaws
