pub mod PixelLaws
pub mod WordLaws
pub mod AnswerLaws
pub mod RoundLaws
