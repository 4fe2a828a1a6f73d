pub mod Throttled
