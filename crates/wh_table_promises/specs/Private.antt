-- What no contract of a public item cites: only those of private functions.
pub mod Seen
pub mod Found
pub mod Told
