pub mod Sticky
pub mod Outcomes
