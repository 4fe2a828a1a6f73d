pub mod Printable
pub mod Counted
pub mod Highest
pub mod Written
mod Adding
