-- The laws of writing; the proofs of the functions stand beside them.
pub mod Bytes
pub mod Answers
pub mod Cases
