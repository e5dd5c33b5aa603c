pub mod Windows
pub mod Steps
pub mod Whole
pub mod Turns
pub mod Ids
