pub mod Bounds
pub mod Rules
pub mod Ranges
pub mod Refusals
pub mod Drafting
pub mod Answering
pub mod InForce
