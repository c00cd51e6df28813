pub mod Unless
pub mod Simple
pub mod Readings
pub mod First
