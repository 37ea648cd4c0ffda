pub mod Putting
pub mod Numerals
