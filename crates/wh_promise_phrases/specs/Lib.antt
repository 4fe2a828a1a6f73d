pub mod Marks
pub mod Phrases
pub mod Things
