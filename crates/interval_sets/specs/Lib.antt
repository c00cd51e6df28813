pub mod Intervals
pub mod Many
pub mod Rows
