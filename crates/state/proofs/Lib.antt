pub mod Tests
pub mod Seq
pub mod Numbers
pub mod Disjoint
pub mod Filled
pub mod Bytes
pub mod Outcomes
