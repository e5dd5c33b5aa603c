pub mod Stores
pub mod Field
pub mod Row
