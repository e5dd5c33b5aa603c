pub mod Said
pub mod Check
pub mod Sizes
pub mod Written
pub mod Laws
