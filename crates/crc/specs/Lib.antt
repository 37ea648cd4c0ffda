pub mod Checksum
pub mod WideRegister
