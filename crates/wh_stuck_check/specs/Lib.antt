pub mod Verdicts
pub mod Faults
pub mod Sure
pub mod Scenarios
pub mod Private
