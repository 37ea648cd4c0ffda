pub mod Grammar
pub mod Traces
pub mod Refusals
pub mod Reading
pub mod FirstLines
pub mod Laws
pub mod PrivateContracts
