pub mod Founds
pub mod Known
pub mod Parties
pub mod Reaches
pub mod Rests
pub mod Times
