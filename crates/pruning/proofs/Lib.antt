pub mod Flags
pub mod Counting
pub mod Firsts
pub mod Noting
pub mod Settling
pub mod Serving
