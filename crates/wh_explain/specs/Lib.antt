pub mod Pairings
pub mod Differences
pub mod Numbers
pub mod Explaining
pub mod Reading
pub mod Laws
pub mod Private
