pub mod Queries
pub mod Laws
pub mod Completed
