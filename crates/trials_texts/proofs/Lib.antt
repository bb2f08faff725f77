pub mod Here
pub mod Putting
