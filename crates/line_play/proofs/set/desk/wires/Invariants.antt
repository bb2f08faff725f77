use Rattle.line_play.specs.SetDesks.{AreNewWires}
use Rattle.line_play.proofs.set.desk.wires.Given as goal

abbrev pub invariant-loop-link : goal.invariant-loop-link
invariant-loop-link l = AreNewWires l._link l.wires.items
