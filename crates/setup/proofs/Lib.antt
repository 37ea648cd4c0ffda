pub mod Runs
pub mod Selecting
pub mod Order
pub mod Examples
