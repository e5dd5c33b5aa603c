pub mod Answers
pub mod Right
