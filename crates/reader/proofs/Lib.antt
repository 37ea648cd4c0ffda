pub mod ReaderLaws
pub mod FlippedLaws
pub mod RoundLaws
