pub mod GroupAnswers
pub mod GroupRuns
pub mod Shown
pub mod TermAnswers
pub mod TermRuns
pub mod Told
pub mod UnitLines
pub use Rattle.link_term.specs.Hearing
pub use Rattle.link_term.specs.Kept
pub use Rattle.link_term.specs.Opening
pub use Rattle.link_term.specs.Term
pub use Rattle.link_term.specs.declared as link_term_types
pub use Rattle.resend_store.specs.MeasureNames
pub use Rattle.resend_store.specs.declared as resend_store_types
pub use Rattle.script_book.specs.Answers
pub use Rattle.script_book.specs.Played
