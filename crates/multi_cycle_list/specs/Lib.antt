pub mod Lists
pub mod Nodes
pub mod Laid
pub mod Inner
