pub mod PlayedWrites
