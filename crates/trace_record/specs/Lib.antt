pub mod Trace
pub mod Taking
pub mod Points
pub mod Laws
pub mod Records
