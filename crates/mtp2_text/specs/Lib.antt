pub mod Own
pub mod TextLimits
pub use Rattle.turn_verify.specs.Loaded
pub use Rattle.turn_verify.specs.declared as turn_verify_types
