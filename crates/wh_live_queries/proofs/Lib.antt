pub mod Reading
pub mod Declaring
pub mod Agreeing
pub mod Mapping
pub mod Removal
