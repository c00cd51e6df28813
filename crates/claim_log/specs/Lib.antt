-- Logs: the events that tell a history, the history that they tell, and what is kept of each key.
pub mod Events
pub mod Kept
pub mod Logs
pub mod Rows
pub mod Tallies
pub mod Told
