pub mod Promised
pub mod Ways
pub mod Private
