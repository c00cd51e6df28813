-- What the reader of the grammar does over each run, mark, tag and text that the code scans at once.
pub mod Bytes
pub mod Runs
pub mod MarkRuns
pub mod TableFacts
pub mod TextFacts
pub mod TagFacts
pub mod MarkupFacts
pub mod DeclaredFacts
