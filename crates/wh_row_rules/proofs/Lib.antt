pub mod Ending
pub mod Texts
pub mod Breaking
pub mod Hearing
pub mod Outcomes
