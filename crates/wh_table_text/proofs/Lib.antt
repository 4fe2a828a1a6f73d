pub mod Outcomes
pub mod Places
pub mod Stopping
pub mod ReadOnce
