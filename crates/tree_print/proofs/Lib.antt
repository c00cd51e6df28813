mod Pieces
mod States
mod Steps
mod Forests
mod Loops
