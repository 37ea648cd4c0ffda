pub mod Pixels
pub mod Words
pub mod Unpacking
pub mod RoundTrip
