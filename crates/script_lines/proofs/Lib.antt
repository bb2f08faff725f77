mod Loops
mod Parts
mod Ranges
pub mod FirstWords
pub mod Lookups
pub mod NumberLemmas
