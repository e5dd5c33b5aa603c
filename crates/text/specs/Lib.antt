pub mod Ascii
pub mod Text
pub mod Room
pub mod Line
