pub mod Linear
pub mod Shifts
pub mod Quotient
pub mod Words
pub mod Windows
pub mod WideWindows
