pub mod Walks
pub mod Erasing
pub mod GoingOn
pub mod Reaching
pub mod Crossing
pub mod Lookups
pub mod Nothing
pub mod Setting
mod Ending
