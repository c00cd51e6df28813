-- Which files are asked for, and what checks ask of them.
pub mod Asking
pub mod Demands
