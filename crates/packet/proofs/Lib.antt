-- The laws of the check; the proofs of the functions stand beside them.
pub mod Xor
pub mod Linear
pub mod ByteStep
pub mod Register
pub mod Annex
