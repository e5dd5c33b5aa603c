pub mod Turns
pub mod Checks
