pub mod Asking
pub mod KnownFiles
pub mod Sessions
