-- What a command says, and how it goes out.
pub mod Said
pub mod Outcomes
pub mod Rows
