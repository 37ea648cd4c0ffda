pub mod TakeLaws
pub mod TurnLaws
pub mod JoinedTurns
pub mod WritesLaws
pub mod RecordNumbers
pub mod RecordLaws
pub mod FileLaws
pub mod Examples
