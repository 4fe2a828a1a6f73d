pub mod Stepped
pub mod Started
pub mod Kept
mod Runs
mod Brought
mod Checked
