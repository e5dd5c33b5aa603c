-- What packets on a link are: their sizes, the check, the fields.
pub mod Sizes
pub mod Check
pub mod Packet
