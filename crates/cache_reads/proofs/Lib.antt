pub mod Causes
pub mod Found
pub mod Piecewise
pub mod Plans
