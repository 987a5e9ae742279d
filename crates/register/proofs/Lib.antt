pub mod Cuts
pub mod Grounds
