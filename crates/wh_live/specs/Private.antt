-- Definitions for the contracts of private functions and for the invariants of private fields; no public contract cites
-- them.
pub mod Answering
pub mod Opening
pub mod Receipts
pub mod Activities
pub mod Noting
