pub mod Finding
pub mod Ends
pub mod Mean
