pub mod Checked
pub mod Printed
pub mod Telling
pub use Rattle.script_point.specs.Fronts
pub use Rattle.turn_code.specs.declared as turn_code_types
pub use Rattle.turn_verify.specs.Loaded
