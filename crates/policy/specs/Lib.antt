pub mod Coverage
pub mod Policies
pub mod Meaning
pub mod Naming
pub mod Walks
pub mod Comparisons
