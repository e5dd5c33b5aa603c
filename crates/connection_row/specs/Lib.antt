-- A connection's record as a row of bytes.
pub mod Row
pub mod Stored
