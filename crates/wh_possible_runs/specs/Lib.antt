pub mod Things
pub mod Situations
pub mod PossibleRuns
pub mod Configurations
pub mod Shown
pub mod Searches
pub mod Rules
