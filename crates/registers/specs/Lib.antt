pub mod RegisterMap
pub mod RegisterFiles
pub mod Bursts
pub mod SclTimes
pub mod PowerUps
