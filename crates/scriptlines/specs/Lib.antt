pub mod TakenLines
pub mod ScriptFiles
pub mod PrivateContracts
