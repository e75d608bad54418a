pub mod Rises
pub mod Kept
pub mod Finds
