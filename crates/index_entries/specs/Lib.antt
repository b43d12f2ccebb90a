pub mod Keys
pub mod Bytes
pub mod Laid
pub mod Inner
