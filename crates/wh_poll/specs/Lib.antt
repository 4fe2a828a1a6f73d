pub mod Serve
pub mod Workers
pub mod Turns
pub mod Ends
pub mod Lists
pub mod Steady
pub mod Private
