pub mod Act
pub mod Code
pub mod Declarations
pub mod Named
pub mod Outcomes
pub mod Valued
