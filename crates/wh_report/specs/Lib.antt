pub mod OtherValues
pub mod Notes
pub mod Private
pub mod Records
pub mod Reports
