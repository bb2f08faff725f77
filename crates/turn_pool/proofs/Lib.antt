pub mod Asks
pub mod Calls
pub mod Counting
pub mod Finishes
pub mod Growing
pub mod Naming
pub mod Standing
pub mod Turns
