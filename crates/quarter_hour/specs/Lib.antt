pub mod Working
pub mod Drafting
