pub mod LineLaws
pub mod MadeTurns
pub mod FileLaws
pub mod JoinedTurns
