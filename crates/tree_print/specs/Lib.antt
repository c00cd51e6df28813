pub mod Lines
pub mod Texts
pub mod Trees
pub mod Stacks
pub mod Rows
