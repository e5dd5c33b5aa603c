-- What is promised of every step over two links.
pub mod Promises
pub mod Callers
