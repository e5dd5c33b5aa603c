-- What is written of a message, and when nothing is.
pub mod Writing
