pub mod Effectives
pub mod Faults
pub mod Lookups
pub mod Poms
pub mod Reasons
pub mod Trees
