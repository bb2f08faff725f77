use Rattle.std.proofs.Common.{◌≡◌, ◌++◌, drop}
use Rattle.sdl_ast.specs.declared.tree.Decision.{out-Decision}
use Rattle.sdl_ast.specs.Views.{text_of, choice_of, statements_before, answers_before, else_choice, end_text}
use Rattle.sdl_emit.specs.Scopes.{scope_in}
use Rattle.sdl_meaning.specs.Code.{code_joins, answers_joins}
use Rattle.sdl_emit.proofs.placing.+placing.Given as goal

abbrev pub invariant-collect_answers-loop-answer : goal.invariant-collect_answers-loop-answer
invariant-collect_answers-loop-answer l =
    l.found.items ++ answers_joins (scope_in l.names) (answers_before (drop l.answer-index l.answer-items) (else_choice (out-Decision l.decision).otherwise)) ≡ l.initial.found.items ++ answers_joins (scope_in l.names) (choice_of l.decision)

abbrev pub invariant-collect_joins-loop-statement : goal.invariant-collect_joins-loop-statement
invariant-collect_joins-loop-statement l =
    l.found.items ++ code_joins (scope_in l.names) (statements_before (drop l.statement-index l.statement-items) (end_text l.transition.end)) ≡ l.initial.found.items ++ code_joins (scope_in l.names) (text_of l.transition)
