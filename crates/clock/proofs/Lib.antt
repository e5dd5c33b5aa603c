pub mod Wrapped
pub mod Cases
pub mod RoundTrip
