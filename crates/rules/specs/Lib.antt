pub mod Rows
pub mod Modulo
