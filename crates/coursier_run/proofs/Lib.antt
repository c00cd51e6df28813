pub mod Concluding
pub mod FirstLink
pub mod Promised
pub mod Reasons
pub mod Sampled
pub mod Wider
