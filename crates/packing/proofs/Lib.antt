pub mod RawLaws
pub mod CheckLaws
