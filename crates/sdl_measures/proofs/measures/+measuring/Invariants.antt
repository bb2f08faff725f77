use Rattle.std.proofs.Common.{◌+◌, ◌≤◌, ℕ, length, drop}
use Rattle.sdl_ast.specs.declared.tree.Decision.{out-Decision}
use Rattle.sdl_ast.specs.Views.{statements_before, answers_before, else_choice, end_text, process_of}
use Rattle.sdl_measures.specs.Counting.{IsBehind, IsMeasured, AreMeasured}
use Rattle.sdl_measures.proofs.measures.+measuring.Given as goal

abbrev pub invariant-measure_transition-loop-left : goal.invariant-measure_transition-loop-left
invariant-measure_transition-loop-left l = record {
  within : l.left ≤ length l.transition.statements.items;
  total : (k e : ℕ) → IsBehind k e l.fn.behind
      → IsMeasured (process_of l.process) l.measures (statements_before (drop l.left l.transition.statements.items) (end_text l.transition.end)) k e l.total;
}

abbrev pub invariant-measure_answers-loop-left : goal.invariant-measure_answers-loop-left
invariant-measure_answers-loop-left l = record {
  within : l.left ≤ length (out-Decision l.decision).answers.items;
  total : (k e : ℕ) → IsBehind (1 + k) e l.fn.behind
      → AreMeasured (process_of l.process) l.measures l.truth (answers_before (drop l.left (out-Decision l.decision).answers.items) (else_choice (out-Decision l.decision).otherwise)) k e l.total;
}

abbrev pub decreases-measure_transition-loop-left : goal.decreases-measure_transition-loop-left
decreases-measure_transition-loop-left l = l.left

abbrev pub decreases-measure_answers-loop-left : goal.decreases-measure_answers-loop-left
decreases-measure_answers-loop-left l = l.left
