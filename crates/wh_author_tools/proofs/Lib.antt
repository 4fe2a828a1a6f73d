pub mod Keeping
mod Arrows
mod Versions
mod Answered
