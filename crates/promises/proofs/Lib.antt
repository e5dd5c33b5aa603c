pub mod Delivery
pub mod Opening
pub mod Promises
pub mod Remembered
pub mod Reported
pub mod Valid
