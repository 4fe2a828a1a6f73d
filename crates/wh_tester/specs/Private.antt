-- Definitions that only contracts of private functions and invariants over private fields cite.
pub mod Report
pub mod Verdicts
