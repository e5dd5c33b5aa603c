-- DEMAND-2: what is written reads back, and what is read writes back.
pub mod Packet
pub mod Message
