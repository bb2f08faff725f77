pub mod GroupCommands
pub mod GroupScripts
pub mod Heads
pub mod Octets
pub mod Orders
pub mod TermCommands
pub mod TermScripts
pub mod UnitWords
pub use Rattle.resend_store.specs.Limits
pub use Rattle.resend_store.specs.declared as resend_store_types
pub use Rattle.script_lines.specs.Numbers
