pub mod Issuing
pub mod Faults
pub mod Calls
pub mod Private
