-- Boards that are worked on: what is asked for how, what is counted, and what work may make of a board.
pub mod Boards
pub mod Counts
pub mod Ends
pub mod Plans
pub mod Works
pub mod Worlds
