-- Files of repositories.
pub mod Files
