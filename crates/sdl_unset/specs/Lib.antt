pub mod Fates
pub mod Firsts
pub mod Flows
pub mod Graph
pub mod Graphs
pub mod Order
pub mod Surveys
pub mod Visits
