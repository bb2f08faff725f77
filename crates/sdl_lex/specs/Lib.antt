pub mod Lexed
pub mod Limits
pub mod Printed
pub mod Runs
pub mod Scan
pub mod Spelling
pub mod Texts
