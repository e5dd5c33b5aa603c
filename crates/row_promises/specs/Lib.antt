-- What rows, and the calls over them, promise.
pub mod Rows
pub mod Calls
pub mod Cases
