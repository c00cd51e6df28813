-- Addresses and reasons, pair by pair.
mod Pairs
