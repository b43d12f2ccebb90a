pub mod Testing
pub mod Keeping
pub mod Mean
pub mod Calls
