-- Re-exports the lemmas that unfold the views of the tree one layer at a time.
pub use Rattle.sdl_tables.proofs.Views.{text_of-is, plain_act, plain_decision-is, plain_decides, plain_answer-is, statement_of-act, decision_of-is, statement_of-decide, answer_of-is}
