pub mod Bytes
pub mod Lists
pub mod Members
pub mod ByName
pub mod Reading
pub mod ServerReading
