pub mod Division
pub mod Interpolation
pub mod Ranges
pub mod Sums
