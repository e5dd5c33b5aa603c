pub mod Records
pub mod Steps
pub mod Story
pub mod Exact
pub mod Samples
