pub mod TxQueue
pub mod Steps
pub mod Bytes
pub mod Calls
pub mod Inner
