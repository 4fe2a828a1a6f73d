pub mod Requests
pub mod Responses
pub mod Reasons
pub mod Tables
pub mod Steps
pub mod WrittenLines
pub mod Private
