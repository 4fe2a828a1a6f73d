pub mod Answers
pub mod Kinds
pub mod Deliveries
pub mod Private
