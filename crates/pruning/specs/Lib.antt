pub mod Rules
pub mod Marking
pub mod Reasons
