pub mod Framing
pub mod Records
pub mod Laws
pub mod PrivateContracts
