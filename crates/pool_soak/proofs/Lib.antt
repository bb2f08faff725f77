pub mod Books
pub mod Loops
pub mod Texts
