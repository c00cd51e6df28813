pub mod Classes
pub mod Digits
pub mod Parts
pub mod Rows
pub mod Signs
