pub mod Priorities
pub mod Sets
pub mod Ids
pub mod Theorem
