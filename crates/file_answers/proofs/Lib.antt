-- What checks ask, check by check, and what a checksum file wants.
mod Deciding
mod Failing
mod Judging
mod Wanting
