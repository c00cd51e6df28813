-- Lemmas of logs.
pub mod Keeping
pub mod Keys
pub mod Rows
pub mod Telling
