-- The paths that rounds ask for.
mod Asked
mod Paths
