pub mod TextLaws
pub mod RecordLaws
pub mod TraceLaws
pub mod AnswerLaws
pub mod HubLaws
