pub mod Parts
pub mod Reading
pub mod Testing
pub mod Turns
pub mod Grounds
