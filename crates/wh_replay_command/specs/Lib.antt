pub mod Batches
pub mod Replays
