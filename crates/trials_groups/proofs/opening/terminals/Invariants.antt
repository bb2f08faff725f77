-- The terminals made so far.
use Rattle.trials_groups.specs.Opened.{AreNew}
use Rattle.trials_groups.proofs.opening.terminals.Given as goal

abbrev pub invariant-loop-made : goal.invariant-loop-made
invariant-loop-made l = AreNew l.set l.mode l.made l.terminals.items
