-- The reader is right for the grammar, group of states by group, and its answer is the only one.
pub mod Bytes
pub mod Keeps
pub mod Takes
pub mod Lives
pub mod Right
pub mod HeadKeeps
pub mod HeadTakes
pub mod HeadLives
pub mod Utf8
pub mod Unknown
pub mod OneAnswer
