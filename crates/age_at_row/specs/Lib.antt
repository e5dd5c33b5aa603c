-- Demand 3 over a row: the runs of calls on it, and the claim.
pub mod Run
pub mod Claim
