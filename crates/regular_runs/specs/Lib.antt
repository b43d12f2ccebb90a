pub mod Runs
pub mod Example
