pub mod NumberedWrites
pub mod Origins
pub mod KeptOrigins
pub mod Effects
