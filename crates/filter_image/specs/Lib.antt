pub mod Image
pub mod Inner
