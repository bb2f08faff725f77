pub mod Counting
pub mod Equal
mod Keeping
pub mod Lists
mod Moving
pub mod Unbound
