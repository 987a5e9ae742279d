pub mod Lists
pub mod Names
pub mod Rows
pub mod Search
