pub mod ListedOne
pub mod RecordLaws
pub mod WindowLaws
pub mod TurnLaws
pub mod FileLaws
pub mod JoinedTurns
