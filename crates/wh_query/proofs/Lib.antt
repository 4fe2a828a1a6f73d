pub mod States
pub mod CompletedTasks
