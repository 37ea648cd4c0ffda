pub mod Kinds
pub mod Ticks
pub mod Orders
pub mod Layouts
pub mod Inside
pub mod BreakingWrites
pub mod Examples
