pub mod Refusals
pub mod Bytes
pub mod Format
pub mod Readings
