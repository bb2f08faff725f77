pub mod Actors
pub mod Counts
pub mod Having
pub mod Keeping
pub mod Optional
pub mod Repeats
pub mod Runs
