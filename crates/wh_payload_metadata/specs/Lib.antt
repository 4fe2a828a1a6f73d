pub mod Payloads
pub mod Header
pub mod Seen
pub mod Handed
pub mod Laws
pub mod Messages
pub mod Kept
