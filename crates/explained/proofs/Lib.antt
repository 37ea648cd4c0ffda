pub mod ExplainedLaws
pub mod ReorderedLaws
pub mod Examples
