-- What no contract of a public item cites: only those of private functions.
pub mod Refusals
pub mod Told
