pub mod Grammar
pub mod ScriptLines
pub mod PrivateContracts
