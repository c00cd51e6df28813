-- Lemmas on runs of hexadecimal digits and on the bytes that they stand for.
pub mod Digits
pub mod Runs
