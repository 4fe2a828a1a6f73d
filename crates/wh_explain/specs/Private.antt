-- Definitions that only contracts of private functions and invariants over private fields cite.
pub mod Explaining
pub mod Stepping
pub mod Tasks
pub mod Findings
pub mod Numbers
