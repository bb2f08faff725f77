use Rattle.std.proofs.Common.{◌≡◌, ◌++◌, ◌&&◌, ◌||◌, drop}
use Rattle.sdl_ast.specs.declared.tree.Decision.{out-Decision}
use Rattle.sdl_ast.specs.Views.{text_of, choice_of, statements_before, answers_before, else_choice, end_text}
use Rattle.sdl_sound.specs.Going.{goes_on, choice_goes_on}
use Rattle.sdl_emit.specs.Scopes.{scope_in, question_in}
use Rattle.sdl_meaning.specs.Named.{NamedText, NamedChoice}
use Rattle.sdl_compile.specs.Reads.{everything, left, answers_left}
use Rattle.sdl_compile.specs.Entries.{met, answers_met}
use Rattle.sdl_compile.specs.Facts.{text_sets, answers_sets}
use Rattle.sdl_compile.proofs.marks.+marks.Given as goal

abbrev pub invariant-mark_answers-loop-answer : goal.invariant-mark_answers-loop-answer
invariant-mark_answers-loop-answer l = record {
  sets : l.sets.items ++ answers_sets (scope_in l.names) l.set (answers_before (drop l.answer-index l.answer-items) (else_choice (out-Decision l.decision).otherwise)) ≡ l.initial.sets.items ++ answers_sets (scope_in l.names) l.set (choice_of l.decision);
  entries : answers_met (scope_in l.names) l.set (answers_before (drop l.answer-index l.answer-items) (else_choice (out-Decision l.decision).otherwise)) l.entries.items ≡ answers_met (scope_in l.names) l.set (choice_of l.decision) l.initial.entries.items;
  goes : (l.goes || choice_goes_on (answers_before (drop l.answer-index l.answer-items) (else_choice (out-Decision l.decision).otherwise))) ≡ choice_goes_on (choice_of l.decision);
  behind : answers_left (scope_in l.names) l.set l.all (answers_before (drop l.answer-index l.answer-items) (else_choice (out-Decision l.decision).otherwise)) ≡ answers_left (scope_in l.names) l.set everything (choice_of l.decision);
  named : NamedChoice (scope_in l.names) (question_in l.decision) (answers_before (drop l.answer-index l.answer-items) (else_choice (out-Decision l.decision).otherwise));
}

abbrev pub invariant-mark_text-loop-statement : goal.invariant-mark_text-loop-statement
invariant-mark_text-loop-statement l = record {
  sets : l.sets.items ++ text_sets (scope_in l.names) l.set (statements_before (drop l.statement-index l.statement-items) (end_text l.transition.end)) ≡ l.initial.sets.items ++ text_sets (scope_in l.names) l.fn.set (text_of l.transition);
  entries : met (scope_in l.names) l.set (statements_before (drop l.statement-index l.statement-items) (end_text l.transition.end)) l.entries.items ≡ met (scope_in l.names) l.fn.set (text_of l.transition) l.initial.entries.items;
  goes : (l.goes && goes_on (statements_before (drop l.statement-index l.statement-items) (end_text l.transition.end))) ≡ goes_on (text_of l.transition);
  behind : left (scope_in l.names) l.set (statements_before (drop l.statement-index l.statement-items) (end_text l.transition.end)) ≡ left (scope_in l.names) l.fn.set (text_of l.transition);
  named : NamedText (scope_in l.names) (statements_before (drop l.statement-index l.statement-items) (end_text l.transition.end));
}
