-- The promises of every step, proved from what may follow it (Outcome).
pub mod Accepted
pub mod Alike
pub mod Callers
pub mod Cases
pub mod Forward
pub mod Outcome
pub mod Promises
pub mod Seen
