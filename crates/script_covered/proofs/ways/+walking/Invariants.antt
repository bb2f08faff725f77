-- The part of the path already walked, and the rest of it.
use Rattle.std.proofs.Common.{drop}
use Rattle.sdl_ast.specs.declared.tree.Decision.{out-Decision}
use Rattle.sdl_ast.specs.Views.{text_of, choice_of, statements_before, answers_before, else_choice, end_text}
use Rattle.script_covered.specs.Ways.{way_of, chosen_way}
use Rattle.script_covered.specs.OnWay.{IsOnWay}
use Rattle.script_covered.proofs.ways.+walking.Given as goal

abbrev pub invariant-walk-loop-statement : goal.invariant-walk-loop-statement
invariant-walk-loop-statement l =
    IsOnWay (way_of l.names (text_of l.transition) l.initial.values.items)
    (way_of l.names (statements_before (drop l.statement-index l.statement-items) (end_text l.transition.end)) l.values.items) l.initial.counts l.counts

abbrev pub invariant-choose-loop-answer : goal.invariant-choose-loop-answer
invariant-choose-loop-answer l =
    IsOnWay (chosen_way l.names (out-Decision l.decision).at (choice_of l.decision) l.value l.initial.values.items)
    (chosen_way l.names (out-Decision l.decision).at (answers_before (drop l.answer-index l.answer-items) (else_choice (out-Decision l.decision).otherwise)) l.value l.values.items)
    l.initial.counts l.counts
