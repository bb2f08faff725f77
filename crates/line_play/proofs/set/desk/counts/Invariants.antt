use Rattle.line_play.specs.SetDesks.{AreNewCounts}
use Rattle.line_play.proofs.set.desk.counts.Given as goal

abbrev pub invariant-loop-link : goal.invariant-loop-link
invariant-loop-link l = AreNewCounts l._link l.counts.items
