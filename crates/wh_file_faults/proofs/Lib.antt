pub mod Collected
pub mod Documents
pub mod Unread
