pub mod Packets
pub mod Writers
