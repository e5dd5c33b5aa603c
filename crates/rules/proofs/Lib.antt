pub mod Tests
pub mod Integers
pub mod Modulo
