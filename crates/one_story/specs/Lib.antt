-- Two links, one story: what the peer sends, how it arrives and is taken, and what is claimed.
pub mod Sequence
pub mod Run
pub mod OneStory
pub mod Silent
pub mod Arrivals
pub mod Met
pub mod Losses
pub mod Worked
