pub mod PlayedWindows
pub mod MadeTurns
pub mod JoinedTurns
pub mod FileLaws
