mod Bytes
pub mod Ends
pub mod Keeps
mod Law
mod Outcome
pub mod Parts
mod Names
pub mod Places
pub mod Runs
mod Size
mod Steps
