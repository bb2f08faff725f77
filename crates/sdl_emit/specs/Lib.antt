pub mod Bodies
pub mod Landing
pub mod Marks
pub mod Placing
pub mod Scopes
pub mod Trimmed
pub mod Uses
pub use Rattle.sdl_measures.specs.Measures
pub use Rattle.sdl_measures.specs.declared as sdl_measures_types
