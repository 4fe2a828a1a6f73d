-- Definitions that no contract of a public item cites: they are for private functions and private fields.
pub mod Json
