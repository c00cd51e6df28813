-- What is asked, and what each rule chooses.
pub mod Asked
pub mod Reads
pub mod Apart
pub mod Pairs
pub mod Greatest
pub mod Relaxed
pub mod Choose
pub mod Origins
pub mod Accept
pub mod Rows
