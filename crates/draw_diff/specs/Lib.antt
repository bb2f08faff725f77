pub mod Items
pub mod Names
pub mod Renaming
pub mod Runs
pub mod Ways
