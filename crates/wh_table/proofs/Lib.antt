pub mod Asking
pub mod Starts
