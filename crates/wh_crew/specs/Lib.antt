pub mod Crews
pub mod Counts
pub mod Serving
pub mod HeartbeatResponses
pub mod TaskQueries
