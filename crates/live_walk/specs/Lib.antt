pub mod Graphs
pub mod Paths
pub mod Walks
pub mod Numbers
pub mod Marks
