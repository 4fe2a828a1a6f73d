pub mod Polling
pub mod Setups
mod Spares
pub mod Served
mod Sending
