pub mod Moves
pub mod ReadLaws
pub mod StreamLaws
