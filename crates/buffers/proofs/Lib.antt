pub mod PutLaws
pub mod NumeralLaws
