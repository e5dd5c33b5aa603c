-- The table of packet types, and what it says of a type.
pub mod Types
