pub mod Small
pub mod Leaves
pub mod Fields
