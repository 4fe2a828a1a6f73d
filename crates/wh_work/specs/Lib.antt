pub mod Plans
pub mod Policies
pub mod PolicyFaults
pub mod Reports
pub mod Untaken
pub mod Progress
pub mod MetricsPaths
