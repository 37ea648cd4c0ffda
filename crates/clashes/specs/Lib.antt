pub mod Channels
pub mod Addresses
