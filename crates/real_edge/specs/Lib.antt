-- Folders and files as the system tells of them, the pieces of a file, and what is told of the real outside.
pub mod FilePieces
pub mod SystemFiles
pub mod Ways
