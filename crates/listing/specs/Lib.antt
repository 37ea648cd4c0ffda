pub mod Refusals
pub mod Listing
pub mod TraceHubs
pub mod PrivateContracts
