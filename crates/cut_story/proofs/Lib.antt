pub mod Steps
pub mod Windows
pub mod Told
pub mod Worked
