pub mod Leading
pub mod Showing
pub mod Following
pub mod Fewer
