pub mod Hubs
pub mod Refusals
pub mod Routes
