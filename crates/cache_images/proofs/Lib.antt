pub mod Along
pub mod Frames
pub mod Good
pub mod Held
pub mod Orders
pub mod Sealing
pub mod Shown
pub mod Texts
