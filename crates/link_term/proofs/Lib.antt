pub mod Cutting
pub mod Delivering
pub mod Losing
pub mod Quiet
pub mod Room
pub mod Speaking
pub mod Taking
