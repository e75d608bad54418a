pub mod Minutes
pub mod Taking
pub mod Recorded
pub mod MinuteLaws
pub mod MinuteStays
pub mod MinuteRecords
