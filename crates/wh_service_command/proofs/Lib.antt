pub mod Parts
pub mod Repeats
pub mod Steps
