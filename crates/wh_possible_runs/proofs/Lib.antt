pub mod Hearing
pub mod Sound
pub mod Rules
pub mod Steps
