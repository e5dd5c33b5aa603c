pub mod Record
pub mod Call
pub mod Table
