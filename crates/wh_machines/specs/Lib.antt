pub mod Lookups
pub mod Private
