pub mod Cuts
pub mod Filled
pub mod Laws
pub mod Progress
pub mod Rows
pub mod Segments
pub mod Values
