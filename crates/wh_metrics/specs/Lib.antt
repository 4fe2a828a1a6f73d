pub mod Labels
pub mod Times
pub mod Lines
pub mod Exposition
