pub mod Run
pub mod Demand3
