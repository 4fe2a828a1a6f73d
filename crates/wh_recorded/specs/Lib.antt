pub mod Calls
pub mod Order
pub mod Rounds
