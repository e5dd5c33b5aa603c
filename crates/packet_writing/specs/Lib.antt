-- What is written of a packet, and which packets are refused.
pub mod Writing
