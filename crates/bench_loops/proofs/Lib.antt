-- The laws of the loops; the proofs of the functions stand beside them.
pub mod Bits
pub mod Checks
pub mod Digest
