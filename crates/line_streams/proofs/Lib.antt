-- Text that goes out piece by piece, and what follows from how a command ends.
mod Gains
pub mod Endings
