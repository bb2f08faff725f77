pub mod Books
pub mod Faults
pub mod FindingLines
pub mod Findings
pub mod Receipts
pub mod Scripts
