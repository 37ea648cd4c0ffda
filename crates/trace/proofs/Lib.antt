pub mod KindLaws
pub mod RecordLaws
pub mod WindowLaws
