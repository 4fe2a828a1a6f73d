-- Definitions that no contract of a public item cites.
pub mod Found
