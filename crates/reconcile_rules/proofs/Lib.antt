-- Lemmas of intervals that are apart, of what is kept and of what is chosen.
mod Members
mod Ends
mod Pairs
mod Partners
mod KeptLemmas
mod Loops
mod Cases
mod Listing
mod GreatestLemmas
mod LeastPair
mod OriginLemmas
