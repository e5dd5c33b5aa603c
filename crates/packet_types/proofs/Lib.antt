-- The laws of the table; the proofs of the functions stand beside them.
pub mod TypeRows
