pub mod OneLine
pub mod Listing
pub mod ReadBack
pub mod LineEnds
pub mod Parts
pub mod Large
pub mod Reasoning
pub mod Printing
