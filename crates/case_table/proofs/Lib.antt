-- What a binary search finds, and what the numbers of names tell.
pub mod Numbers
mod Search
