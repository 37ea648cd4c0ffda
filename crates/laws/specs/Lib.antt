pub mod Bits
pub mod MaskedWrites
pub mod Reply
pub mod Tables
pub mod Buffers
pub mod Texts
pub mod Groups
pub mod Elements
