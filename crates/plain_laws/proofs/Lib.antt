pub mod Lists
pub mod Numbers
pub mod Options
pub mod Pairwise
pub mod Places
pub mod Refilling
pub mod Searches
pub mod Truths
