pub mod NumberedCalls
pub mod ScriptWrites
pub mod Examples
