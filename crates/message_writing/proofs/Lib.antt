-- The laws of writing: its steps, and that each type is written.
pub mod Sizes
pub mod Steps
pub mod Written
