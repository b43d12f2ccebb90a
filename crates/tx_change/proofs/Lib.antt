pub mod Looks
pub mod Acts
