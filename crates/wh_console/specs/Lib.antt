pub mod Consoles
pub mod Private
pub mod Inputs
pub mod Names
pub mod Reasons
