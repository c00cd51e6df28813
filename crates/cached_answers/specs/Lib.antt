-- What a cache says of keys.
pub mod Caches
