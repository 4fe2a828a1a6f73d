pub mod Ending
pub mod Faults
pub mod Adding
pub mod Keeping
pub mod Later
pub mod Receipts
pub mod Silent
pub mod Queried
mod Noted
