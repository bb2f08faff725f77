use Rattle.line_tending.specs.Rounds.{Adds}
use Rattle.line_tending.proofs.tended_set.TendedSet.leave.Given as goal

abbrev pub invariant-loop-link : goal.invariant-loop-link
invariant-loop-link l = Adds l.initial.self l.self
