pub mod TextWindows
pub mod TextFiles
