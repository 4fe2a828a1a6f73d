pub mod Payloads
pub mod Scalars
pub mod Forms
pub mod Markers
pub mod Laws
