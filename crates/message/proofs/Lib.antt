-- The laws of messages: every row of the table, the steps of taking apart, what an accepted message is.
pub mod Rows
pub mod Steps
pub mod Accepted
