pub mod Rows
pub mod Ranges
pub mod Calls
pub mod Cases
