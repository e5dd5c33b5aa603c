pub mod File
pub mod Exactly
pub mod Worked
