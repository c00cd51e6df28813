pub mod FieldNames
pub mod FieldPlaces
pub mod Fields
pub mod Projects
pub mod Readings
pub mod Record
pub mod Refusals
