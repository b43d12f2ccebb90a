pub mod Pairs
pub mod Walks
pub mod Places
pub mod Inner
pub mod Testing
