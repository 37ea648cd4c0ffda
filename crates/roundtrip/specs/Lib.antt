pub mod PlayedCalls
pub mod SameEnd
