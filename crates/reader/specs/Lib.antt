pub mod Reader
pub mod RoundTrip
