-- Resolvers, sessions, histories, and what a claim answers over them.
pub mod Claims
pub mod Counts
pub mod Histories
pub mod Least
pub mod Legal
pub mod Resolvers
pub mod Rows
pub mod Sessions
