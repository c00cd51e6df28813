-- What a command prints.
pub mod Refusals
pub mod Rendered
pub mod Rows
