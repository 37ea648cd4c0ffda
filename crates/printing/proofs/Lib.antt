pub mod Devices
pub mod LineLengths
