pub mod Found
pub mod Report
pub mod Rows
