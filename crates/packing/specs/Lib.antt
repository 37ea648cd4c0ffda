pub mod Raw
pub mod Packing
pub mod Lengths
pub mod Checking
