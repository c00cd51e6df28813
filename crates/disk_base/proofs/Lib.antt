pub mod Composed
pub mod Order
pub mod Replays
pub mod Selections
