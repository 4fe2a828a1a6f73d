pub mod Hits
pub mod Sound
