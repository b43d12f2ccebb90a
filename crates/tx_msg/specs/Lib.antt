pub mod Registry
pub mod Steps
pub mod Bytes
pub mod Calls
pub mod Means
pub mod Inner
