pub mod Puts
pub mod Rooms
pub mod Places
pub mod Words
pub mod Line
pub mod Decimal
