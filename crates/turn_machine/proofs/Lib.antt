pub mod Jobs
pub mod UnderWay
pub mod Worded
