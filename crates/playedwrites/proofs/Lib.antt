pub mod EventHubs
pub mod Endings
pub mod PlayedLaws
pub mod EndedRuns
