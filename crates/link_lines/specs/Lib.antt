pub mod Step
pub mod Packet
