pub mod Calls
pub mod Polling
pub mod Walking
pub mod LoopBack
