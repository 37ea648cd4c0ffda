pub mod RegisterMap
pub mod RegisterFiles
pub mod Bursts
pub mod PageWrites
pub mod Selection
pub mod ByteWrites
pub mod PowerUps
