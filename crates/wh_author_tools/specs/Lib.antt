pub mod Values
pub mod Sources
pub mod JobTexts
pub mod CommandTexts
pub mod Scenarios
