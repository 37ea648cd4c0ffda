pub mod CheckBytes
pub mod Columns
pub mod HeaderCorrection
pub mod Syndrome
