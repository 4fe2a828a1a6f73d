pub mod Answering
pub mod ServerReading
pub mod Heartbeating
pub mod Results
pub mod Digits
pub mod Tasks
pub mod Serving
