pub mod Agree
pub mod Empty
pub mod LastRead
pub mod Moved
pub mod MovedOnce
pub mod Unread
