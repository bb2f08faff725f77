use Rattle.std.proofs.Common.{ℕ, ◌<◌}
use Rattle.turn_code.specs.Sets.{Has}
use Rattle.turn_machine.specs.Fitting.{IsSetAt}
use Rattle.trials_texts.proofs.standing.are_set.Given as goal

abbrev pub invariant-loop-variable : goal.invariant-loop-variable
invariant-loop-variable l = (n : ℕ) → n < l.variable → Has l.set n → IsSetAt l.values n
