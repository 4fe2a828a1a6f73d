pub mod Durations
pub mod Sums
pub mod Laws
