mod Changing
mod Hearing
mod NextTasks
mod Showing
mod Starting
mod Stating
mod Following
