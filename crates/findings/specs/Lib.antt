pub mod Blocks
pub mod ByEffect
pub mod WritesSoFar
pub mod AtWrites
pub mod Replaced
pub mod OnOrder
pub mod Examples
