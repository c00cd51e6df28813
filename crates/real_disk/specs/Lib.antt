-- Names below a disk's folder, and what the system tells of them.
pub mod DiskLooks
pub mod DiskNames
