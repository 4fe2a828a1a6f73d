pub mod Commands
pub mod Diagnostics
