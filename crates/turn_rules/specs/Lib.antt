pub mod First
pub mod Parties
pub mod Parts
pub mod RouteTables
pub mod Seen
