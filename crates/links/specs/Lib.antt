-- The table of a step over two links: what follows each row, the rows, and where the user data stands.
pub mod Taken
pub mod Callers
pub mod Table
pub mod Place
