pub mod Order
pub mod PartySets
pub mod RouteTables
pub mod Shapes
pub mod Whole
