-- Lemmas of what a cache says.
pub mod Apart
pub mod Faith
pub mod Tables
