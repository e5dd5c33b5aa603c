pub mod TwoBoxes
