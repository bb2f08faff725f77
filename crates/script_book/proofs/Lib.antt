mod Floods
pub mod Growing
mod Runs
mod Saids
mod Texts
