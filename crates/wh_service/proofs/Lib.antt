pub mod Counted
pub mod Assigned
pub mod FilesRead
pub mod FileRows
pub mod Turns
pub mod Workers
pub mod Faults
pub mod Made
