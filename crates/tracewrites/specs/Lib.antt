pub mod TraceWrites
pub mod RecordTurns
pub mod WriteFiles
pub mod Examples
