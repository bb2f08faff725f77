mod Beginning
mod Digits
mod Filling
mod Leaving
mod Looking
mod Passing
pub mod Reporting
mod Saying
mod Telling
