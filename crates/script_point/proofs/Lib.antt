pub mod Fronting
pub mod TokenEnds
