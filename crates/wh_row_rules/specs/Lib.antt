pub mod Broken
pub mod Ends
pub mod Promises
pub mod Outcome
