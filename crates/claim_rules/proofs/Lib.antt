-- Lemmas of the laws of sessions and histories.
pub mod Along
pub mod AnswerLemmas
pub mod Asked
pub mod BaseLaws
pub mod ClaimCounts
pub mod EntryLemmas
pub mod Flying
pub mod LeastLemmas
pub mod Members
pub mod ReadCounts
pub mod Resolved
pub mod SameNeeds
pub mod Tests
