pub mod Stateless
pub mod Refusals
