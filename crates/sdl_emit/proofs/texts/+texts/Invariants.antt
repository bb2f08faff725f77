use Rattle.std.proofs.Common.{◌≡◌, ◌+◌, ◌≤◌, ◌++◌, ◌&&◌, length, drop}
use Rattle.sdl_ast.specs.declared.tree.Decision.{out-Decision}
use Rattle.sdl_ast.specs.Views.{text_of, choice_of, statements_before, answers_before, else_choice, end_text}
use Rattle.sdl_tables.specs.Names.{variables_of}
use Rattle.sdl_sound.specs.Going.{goes_on}
use Rattle.sdl_sound.specs.Longest.{size}
use Rattle.sdl_emit.specs.Scopes.{scope_in, places_by, question_in}
use Rattle.sdl_meaning.specs.Named.{NamedText, NamedChoice}
use Rattle.sdl_meaning.specs.Code.{text_code, answers_code, answers_size}
use Rattle.sdl_emit.specs.Landing.{answers_leave, starts_from}
use Rattle.sdl_emit.proofs.texts.+texts.Given as goal

abbrev pub invariant-emit_answers-loop-answer : goal.invariant-emit_answers-loop-answer
invariant-emit_answers-loop-answer l = record {
  code : l.code.items ++ answers_code (scope_in l.names) (places_by l.places) (length l.code.items) 0 (answers_before (drop l.answer-index l.answer-items) (else_choice (out-Decision l.decision).otherwise))
      ≡ l.initial.code.items ++ answers_code (scope_in l.names) (places_by l.places) (length l.initial.code.items) 0 (choice_of l.decision);
  jumps : l.jumps.items ++ answers_leave (scope_in l.names) (places_by l.places) (length l.code.items) (answers_before (drop l.answer-index l.answer-items) (else_choice (out-Decision l.decision).otherwise))
      ≡ l.initial.jumps.items ++ answers_leave (scope_in l.names) (places_by l.places) (length l.initial.code.items) (choice_of l.decision);
  starts : l.starts.items ++ starts_from (scope_in l.names) (length l.code.items) (answers_before (drop l.answer-index l.answer-items) (else_choice (out-Decision l.decision).otherwise))
      ≡ l.initial.starts.items ++ starts_from (scope_in l.names) (length l.initial.code.items) (choice_of l.decision);
  named : NamedChoice (scope_in l.names) (question_in l.decision) (answers_before (drop l.answer-index l.answer-items) (else_choice (out-Decision l.decision).otherwise));
  fits : length l.code.items + answers_size (scope_in l.names) (answers_before (drop l.answer-index l.answer-items) (else_choice (out-Decision l.decision).otherwise)) ≤ 512;
}

abbrev pub invariant-emit_text-loop-statement : goal.invariant-emit_text-loop-statement
invariant-emit_text-loop-statement l = record {
  code : l.code.items ++ text_code (scope_in l.names) (places_by l.places) (length l.code.items) (statements_before (drop l.statement-index l.statement-items) (end_text l.transition.end))
      ≡ l.initial.code.items ++ text_code (scope_in l.names) (places_by l.places) (length l.initial.code.items) (text_of l.transition);
  goes : (l.goes && goes_on (statements_before (drop l.statement-index l.statement-items) (end_text l.transition.end))) ≡ goes_on (text_of l.transition);
  named : NamedText (scope_in l.names) (statements_before (drop l.statement-index l.statement-items) (end_text l.transition.end));
  fits : length l.code.items + size (variables_of (scope_in l.names).process) (statements_before (drop l.statement-index l.statement-items) (end_text l.transition.end)) ≤ 512;
}
