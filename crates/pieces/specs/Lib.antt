-- Machines that take turns on the bytes of a file.
pub mod Machine
pub mod Pieces
pub mod Quiet
pub mod InPlace
pub mod Echo
