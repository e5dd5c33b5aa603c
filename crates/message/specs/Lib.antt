-- What messages are: the table of types, the fields, and taking apart.
pub mod Table
pub mod Layout
pub mod Read
