-- Boards: what contracts see of them, and what claims, their ends and turns make of them.
pub mod Boards
pub mod Claimed
pub mod Ends
pub mod Flights
pub mod Turns
pub mod Whys
