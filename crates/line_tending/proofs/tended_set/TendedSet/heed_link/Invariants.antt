use Rattle.line_tending.specs.Rounds.{AddsHeeded}
use Rattle.line_tending.proofs.tended_set.TendedSet.heed_link.Given as goal

abbrev pub invariant-loop-report : goal.invariant-loop-report
invariant-loop-report l = AddsHeeded l.initial.self l.self
