pub mod Parts
pub mod Facts
pub mod Keeping
pub mod Mean
pub mod Acts
