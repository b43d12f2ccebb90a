pub mod Merging
pub mod Writing
