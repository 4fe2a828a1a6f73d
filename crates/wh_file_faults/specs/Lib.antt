pub mod Faults
pub mod Made
pub mod Fields
pub mod Places
pub mod Details
pub mod DetailTexts
