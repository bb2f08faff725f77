pub mod LineCounts
pub mod Readings
