pub mod Paging
pub mod Statuses
pub mod Taking
