pub mod Lines
pub mod Collected
pub mod Parsed
pub mod Read
mod With
