pub mod ScanLaws
pub mod LineLaws
