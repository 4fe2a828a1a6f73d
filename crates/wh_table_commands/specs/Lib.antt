pub mod Checks
pub mod Files
pub mod Pictures
pub mod Scenarios
pub mod Stuck
pub mod TrialReports
pub mod Trials
