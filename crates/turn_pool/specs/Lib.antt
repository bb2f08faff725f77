pub mod Links
pub mod Moves
pub mod Printed
pub mod Receipts
pub mod Serves
pub mod Steps
pub mod Turns
