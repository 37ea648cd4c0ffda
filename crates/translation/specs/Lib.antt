pub mod Collecting
pub mod Laws
pub mod Refusals
pub mod Translation
