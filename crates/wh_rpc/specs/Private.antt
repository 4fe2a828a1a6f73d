-- Definitions for the contracts of private functions and for the invariants of private fields; no public contract cites
-- them.
pub mod Input
pub mod OpenTables
pub mod Losses
