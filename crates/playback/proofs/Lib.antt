pub mod RecordPlays
pub mod SoundPlays
pub mod PlayingLaws
pub mod EndLaws
pub mod WindowLaws
