pub mod Entries
pub mod Objects
pub mod Texts
pub mod Trials
