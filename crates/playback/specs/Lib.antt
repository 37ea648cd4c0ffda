pub mod Playing
pub mod Windows
pub mod PrivateContracts
