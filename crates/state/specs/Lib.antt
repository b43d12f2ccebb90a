pub mod Seq
pub mod Lengths
pub mod Refusals
pub mod Outcome
