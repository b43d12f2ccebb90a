pub mod Noting
pub mod Running
pub mod Taking
