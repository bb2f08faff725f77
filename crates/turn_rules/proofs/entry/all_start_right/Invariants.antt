use Rattle.std.proofs.Common.{ℕ, ◌<◌}
use Rattle.std.specs.Prelude.{slice_index_or}
use Rattle.turn_code.specs.Rules.{StartsRight}
use Rattle.turn_code.specs.declared.draft.DraftVariable.{DraftVariable}
use Rattle.turn_rules.proofs.entry.all_start_right.Given as goal

abbrev pub invariant-loop-variable : goal.invariant-loop-variable
invariant-loop-variable l = (n : ℕ) (d : DraftVariable) → n < l.variable-index → StartsRight (slice_index_or l.variables n d)
