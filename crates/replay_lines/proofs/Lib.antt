pub mod Lent
pub mod Slots
pub mod Samples
