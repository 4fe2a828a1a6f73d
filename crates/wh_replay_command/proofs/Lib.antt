pub mod Batched
pub mod Steps
