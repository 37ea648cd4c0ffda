pub mod PartLaws
pub mod GrammarLaws
pub mod FirstLineLaws
pub mod TextLaws
pub mod TraceLaws
