pub mod Printed
pub mod Replay
pub mod Samples
pub mod Lines
pub mod Laws
