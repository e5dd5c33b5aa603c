-- The laws of the table; the proofs of the functions stand beside them.
pub mod Bools
pub mod Judged
pub mod LinkRows
pub mod Ids
pub mod ClassRows
pub mod Step
