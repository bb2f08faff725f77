use Rattle.std.proofs.Common.{◌≡◌}
use Rattle.line_tending.proofs.tended_set.TendedSet.owe_again.Given as goal

abbrev pub invariant-loop-about : goal.invariant-loop-about
invariant-loop-about l = l.self ≡ l.initial.self
