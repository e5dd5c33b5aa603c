-- Demand 3 at the table: the runs of calls on it, a slot's calls among them, and the claim.
pub mod Run
pub mod Claim
