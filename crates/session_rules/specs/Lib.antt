-- What a session that was worked through comes to.
pub mod Outcomes
