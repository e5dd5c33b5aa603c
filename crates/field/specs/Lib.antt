pub mod Field
pub mod Row
