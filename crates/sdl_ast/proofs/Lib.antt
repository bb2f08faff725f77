pub mod HeightLemmas
pub mod Views
