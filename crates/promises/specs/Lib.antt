-- What the calls promise beyond their equations, and how a connection opens.
pub mod Promises
pub mod Opening
