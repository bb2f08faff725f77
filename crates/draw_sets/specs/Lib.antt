pub mod Drawing
pub mod Noting
pub mod Outlines
