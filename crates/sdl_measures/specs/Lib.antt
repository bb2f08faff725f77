pub mod Counting
pub mod JoinLists
pub mod Links
pub mod Measures
pub mod Rows
pub mod Searched
