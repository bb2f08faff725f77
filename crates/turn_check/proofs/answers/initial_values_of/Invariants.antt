use Rattle.std.proofs.Common.{◌≡◌, ◌≤◌, take, length}
use Rattle.turn_code.specs.Start.{initial_values}
use Rattle.turn_check.proofs.answers.initial_values_of.Given as goal

abbrev pub invariant-loop-variable : goal.invariant-loop-variable
invariant-loop-variable l = (l.values.items ≡ initial_values (take l.variable-index l.variables)) × (length l.variables ≤ 32)
