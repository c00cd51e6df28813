-- Why something is said, and what the top call promises of it, status by status.
pub mod Conclusions
pub mod Justified
pub mod Promises
