pub mod Loads
pub mod Unmarked
