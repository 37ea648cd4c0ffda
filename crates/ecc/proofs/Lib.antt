pub mod Linear
pub mod XorLaws
pub mod ColumnLaws
pub mod Near
