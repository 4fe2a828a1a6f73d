pub mod Answers
pub mod Metadata
pub mod Polled
pub mod Results
pub mod Laws
pub mod DeskAnswers
pub mod Waiting
