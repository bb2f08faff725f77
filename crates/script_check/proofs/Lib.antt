pub mod Long
pub mod Own
pub mod Prints
mod Written
