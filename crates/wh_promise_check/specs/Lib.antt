pub mod Phrases
pub mod Findings
pub mod Kept
pub mod BroughtTables
