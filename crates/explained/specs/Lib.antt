pub mod Explained
pub mod Reordered
pub mod Examples
