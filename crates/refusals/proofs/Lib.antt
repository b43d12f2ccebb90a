pub mod Ends
pub mod Queues
pub mod Reception
pub mod Transmission
pub mod Stateless
pub mod Refusals
