-- Lemmas of boards.
pub mod Batching
pub mod Ending
pub mod Flights
pub mod Keeping
pub mod Lacking
pub mod Settling
pub mod Telling
pub mod Turning
