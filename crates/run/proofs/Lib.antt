pub mod Acting
pub mod Filling
pub mod Marks
pub mod Reporting
pub mod Stepping
