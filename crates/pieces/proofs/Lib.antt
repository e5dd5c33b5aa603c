pub mod Turns
pub mod Reaches
pub mod Agree
pub mod Whole
pub mod Quiet
pub mod Loop
pub mod OnePiece
pub mod Between
