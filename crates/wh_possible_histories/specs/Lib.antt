pub mod Records
pub mod Tellings
pub mod NextTasks
pub mod NeverSticks
pub mod BroughtTables
