-- Demand 3: the world it speaks of, the history of calls, and the claim.
pub mod Clocks
pub mod History
pub mod Claim
