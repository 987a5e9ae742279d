pub mod Answers
pub mod Cells
pub mod Steps
pub mod Given
pub mod Calls
pub mod Runs
pub mod Laws
