-- Demand 3 worked through on numbers and bytes: its premises met at either role, its bounds reached, and its premises missed.
pub mod Worlds
pub mod Histories
pub mod SetUp
pub mod Initiator
pub mod Responder
pub mod Wrap
pub mod CallsMissed
pub mod PremisesMissed
pub mod AtTable
pub mod AtRow
