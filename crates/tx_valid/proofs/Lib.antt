pub mod Placed
pub mod Keeping
pub mod Reading
pub mod Mean
