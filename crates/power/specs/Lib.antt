pub mod Day
pub mod Taking
pub mod Course
