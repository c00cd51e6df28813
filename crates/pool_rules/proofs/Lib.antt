-- Lemmas of work on boards.
pub mod Counting
pub mod Going
pub mod Stopping
pub mod Telling
pub mod Working
