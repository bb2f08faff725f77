pub mod Fronts
pub mod Pointed
pub mod Pointing
pub use Rattle.mtp2_text.specs.Own
pub use Rattle.mtp2_text.specs.TextLimits
pub use Rattle.mtp2_text.specs.declared as mtp2_text_types
