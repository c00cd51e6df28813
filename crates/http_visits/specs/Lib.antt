pub mod Addresses
pub mod Pages
pub mod Places
pub mod Replies
pub mod Visits
