-- Lemmas of items, of ranks and of the reading of constraints.
mod Bounds
mod Cutting
mod Ends
mod Places
mod Plain
pub mod Reading
mod Slices
mod Steps
mod Words
