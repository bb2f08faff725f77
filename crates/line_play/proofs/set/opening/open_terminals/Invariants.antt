use Rattle.line_play.specs.SetOpening.{AreNewTerminals}
use Rattle.line_play.proofs.set.opening.open_terminals.Given as goal

abbrev pub invariant-loop-made : goal.invariant-loop-made
invariant-loop-made l = AreNewTerminals l.set l.limits l.plan.mode l._made l.terminals.items
