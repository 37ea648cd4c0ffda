pub mod Hubs
pub mod Routes
