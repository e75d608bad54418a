pub mod Rounding
pub mod Shares
pub mod Areas
pub mod Crossing
pub mod Parts
