-- What is read of answers.
pub mod Readings
pub mod Rows
