pub mod Answers
pub mod Played
pub mod RouteFaults
pub use Rattle.plain_text.specs.Lines
pub use Rattle.script_lines.specs.Refused
