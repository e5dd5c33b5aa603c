pub mod Accepts
pub mod Writes
