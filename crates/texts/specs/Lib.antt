pub mod Numbers
pub mod Unread
