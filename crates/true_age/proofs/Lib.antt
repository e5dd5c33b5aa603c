pub mod TrueAge
pub mod Answers
pub mod Delivered
pub mod History
pub mod Demand3
