-- The session of a job: over what it begins, how it begins, how often it asks, and what is said of its end.
pub mod Answers
pub mod Asks
pub mod Beginnings
pub mod Faithful
