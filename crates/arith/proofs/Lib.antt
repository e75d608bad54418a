pub mod Floors
pub mod Nearest
pub mod Lines
pub mod Casts
pub mod Orders
pub mod Sums
