pub mod Answered
pub mod Knowing
pub mod Pairs
pub mod Straying
