use Rattle.line_tending.specs.Rounds.{HeedsEach}
use Rattle.line_tending.proofs.tended_set.TendedSet.heed_all.Given as goal

abbrev pub invariant-loop-link : goal.invariant-loop-link
invariant-loop-link l = HeedsEach l.initial.self l.link l.self
