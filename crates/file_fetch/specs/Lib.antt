-- What a plan says of a key, what a file's way through link and store keeps, and why it was not got.
pub mod Causes
pub mod Decided
pub mod Keys
pub mod Received
pub mod Stores
pub mod Worlds
