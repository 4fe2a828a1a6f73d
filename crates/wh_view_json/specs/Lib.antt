pub mod Texts
pub mod Parts
pub mod Markers
pub mod Run
pub mod Sums
pub mod Objects
