pub mod Counting
pub mod Adding
pub mod Joining
pub mod Waiting
