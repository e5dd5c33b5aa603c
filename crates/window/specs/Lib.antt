pub mod Answers
pub mod Window
pub mod MovedOnce
pub mod Lies
