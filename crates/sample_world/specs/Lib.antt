pub mod Draws
pub mod Projects
pub mod World
pub mod Rows
