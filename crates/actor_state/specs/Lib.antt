pub mod Opening
pub mod Outcomes
pub mod Saving
pub mod Scratch
