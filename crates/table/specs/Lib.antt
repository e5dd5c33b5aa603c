pub mod Left
pub mod Table
