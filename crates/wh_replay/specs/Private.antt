-- What no contract of a public item cites: what only contracts of private functions cite, and invariants over private
-- fields of types.
pub mod Activating
pub mod Advances
pub mod Runs
pub mod Views
