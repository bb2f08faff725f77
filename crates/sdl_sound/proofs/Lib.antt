pub mod Items
pub mod Lists
pub mod Numbered
pub mod Places
pub mod Repeats
pub mod Spread
pub mod Views
pub mod Walks
