-- DEMAND-2: what is written and read back, of packets and of messages.
pub mod Packet
pub mod Message
