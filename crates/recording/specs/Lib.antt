pub mod Printed
pub mod Progress
pub mod Cut
pub mod Whole
pub mod Ids
pub mod InPlace
