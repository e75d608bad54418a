pub mod Entries
pub mod Writing
pub mod Logs
