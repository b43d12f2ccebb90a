pub mod Parts
pub mod Testing
pub mod Turns
pub mod Grounds
