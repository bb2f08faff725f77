pub mod FirstFaults
pub mod NameLists
pub mod Sorting
pub mod Whole
