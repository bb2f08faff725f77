use Rattle.std.proofs.Common.{◌≡◌, ◌++◌, drop}
use Rattle.sdl_ast.specs.declared.tree.Decision.{out-Decision}
use Rattle.sdl_ast.specs.Views.{text_of, choice_of, statements_before, answers_before, else_choice, end_text}
use Rattle.sdl_measures.specs.JoinLists.{text_joins, choice_joins}
use Rattle.sdl_measures.proofs.joins.+joining.Given as goal

abbrev pub invariant-push_joins-loop-statement : goal.invariant-push_joins-loop-statement
invariant-push_joins-loop-statement l =
    l.joins.items ++ text_joins (statements_before (drop l.statement-index l.statement-items) (end_text l.transition.end)) ≡ l.initial.joins.items ++ text_joins (text_of l.transition)

abbrev pub invariant-push_in_decision-loop-answer : goal.invariant-push_in_decision-loop-answer
invariant-push_in_decision-loop-answer l =
    l.joins.items ++ choice_joins (answers_before (drop l.answer-index l.answer-items) (else_choice (out-Decision l.decision).otherwise))
    ≡ l.initial.joins.items ++ choice_joins (choice_of l.decision)
