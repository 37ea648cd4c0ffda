pub mod NumberedCalls
pub mod LineNumbers
pub mod WriteLaws
pub mod Turns
pub mod Examples
